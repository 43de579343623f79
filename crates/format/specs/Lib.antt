-- What Spatzenherd's contracts say, by the sections of document 01. Whoever wants to believe the promises reads these files and nothing else,
-- in this order; the minutes are those of a first reading with the paper beside it.

-- Numbers and bytes (15 minutes). `Limits`: the limits. `Bytes`: single bytes by name. `Texts`: texts taken apart, and parts of a text.
pub mod Limits
pub mod Bytes
pub mod Texts
-- Raw bytes to plain text (15). `Plain`: byte order mark, line ends, broken sequences. `Lines`: a text as its lines.
pub mod Plain
pub mod Lines
-- Timing lines (30). `Numbers`: percentages, line numbers, counts. `Times`: timestamps, step by step. `Tokens`: settings' names and values.
-- `CueSettings`, `RegionSettings`: each setting as what it changes. `TimingLines`: start, arrow, end, settings.
pub mod Numbers
pub mod Times
pub mod Tokens
pub mod CueSettings
pub mod RegionSettings
pub mod TimingLines
-- Plain text to lists (20). `Blocks`: signature, lines with number and place, where a block stops. `Lists`: what a block means, and the lists.
-- `LineNumbers`: the lines of each cue, and how they move where one cue is replaced.
pub mod Blocks
pub mod Lists
pub mod LineNumbers
-- Lists and tables (15). `Rows`: the one coding and the one decoding of each row. `Contents`: what lists and rows are compared by.
pub mod Rows
pub mod Contents
-- Lists to text (20). `Writable`: the tests, in their order. `Written`: the one written form.
pub mod Writable
pub mod Written
-- What each call answers, and what lent memory holds after it (30). `Answers`: numbers and values. `TellingTimes`: a time by itself, or why and where
-- it fails. `Converting`, `Reading`, `Parts`, `LookingUp`, `Writing`, `Rewriting`: one call each; `Writing` has demand 2's round trip. `Replacing`: raw lines, a cue's own bytes, the new file, and demand 3.
-- `Edits`: one cue replaced after another.
pub mod Answers
pub mod TellingTimes
pub mod Converting
pub mod Reading
pub mod Parts
pub mod LookingUp
pub mod Writing
pub mod Rewriting
pub mod Replacing
pub mod Edits
-- The program `mend` (10). `Fields`: numbers and escaped texts parted by tabs. `Requests`: the request line, and what mending answers.
pub mod Fields
pub mod Requests
-- Cue text (30). `CueText`: the tokenizer, state by state. `Trees`: the nodes, their rows and strings, and what reading a cue text answers.
pub mod CueText
pub mod Trees
-- Document 01's table of times and numbers (2).
pub mod Examples
