pub mod SheetLaws
pub mod CheckLaws
