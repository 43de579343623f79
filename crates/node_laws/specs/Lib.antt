-- What the laws of both passes say beyond `format`.
pub mod Sizes
