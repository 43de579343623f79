-- The laws that both passes over a cue text cite.
pub mod TreeLaws
pub mod RoomLaws
pub mod RowLaws
