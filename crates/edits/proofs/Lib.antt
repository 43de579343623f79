-- One cue replaced after another, from the bottom: lines in the place of others, where the cues of the new file stand, what a file is after one
-- change, the theorems.
pub mod Splices
pub mod Moved
pub mod Changed
pub mod Orders
