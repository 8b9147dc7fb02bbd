-- Of rg_lower nothing may be cited from above but its call; Inner joins its layers (docs/language.md, "Instructions and lowering").
pub mod Inner
