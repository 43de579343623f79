-- The kinds that stand on a stack.
pub mod Kinds
