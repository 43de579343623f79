-- What the contracts of the look-up say beyond `format`.
pub mod Known
