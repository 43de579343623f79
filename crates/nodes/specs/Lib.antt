-- What a token of a cue text gives, as the code holds it.
pub mod Tokens
