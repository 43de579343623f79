-- Laws that the functions' proofs cite.
pub mod SettingLaws
pub mod OverLaws
