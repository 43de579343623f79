-- Laws that the functions' proofs cite.
mod LeadTable
mod SequenceLaws
mod PieceLaws
mod MarkLaws
