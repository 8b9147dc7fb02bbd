-- What the images of a plan come to (docs/architecture.md, "Images").
pub mod Loading
pub mod Files
pub mod Laws
