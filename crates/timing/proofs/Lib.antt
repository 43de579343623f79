-- Laws that the functions' proofs cite.
mod LineLaws
mod UsualLaws
