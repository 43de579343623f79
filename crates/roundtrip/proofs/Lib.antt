-- Written, then read, is the same.
pub mod Numbers
pub mod Shape
pub mod Cues
pub mod Regions
pub mod Plain
pub mod Files
pub mod Back
