-- Demand 3, from the bottom: raw lines, the names of regions, blocks, the lines of cues, the cue asked for, the whole file.
pub mod RawLines
pub mod Names
pub mod Places
pub mod OneBlock
pub mod CueBlocks
pub mod Spans
pub mod Asked
pub mod Files
