pub mod RunLaws
pub mod KidLaws
pub mod PlaceLaws
pub mod CheckLaws
pub mod LinesLaws
pub mod BindLaws
pub mod TopLaws
pub mod SheetLaws
