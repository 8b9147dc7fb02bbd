-- What the loop of the steps says of a step (docs/embedding.md, "Step by step").
pub mod Goes
