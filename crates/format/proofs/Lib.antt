-- The proved table, and the order of the words in a row.
pub mod Examples
pub mod RowWords
