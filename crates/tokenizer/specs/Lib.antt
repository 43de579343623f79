-- What the tokens of a cue text are, as parts of it.
pub mod Decoding
pub mod Tags
pub mod Reader
