mod TextLemmas
mod CreateLemmas
mod InsertLemmas
mod OpeningLemmas
mod ListingLemmas
mod RowLemmas
mod TenureLemmas
mod ShownLemmas
mod CopyLemmas
pub mod RegisteringLemmas
mod FillLemmas
mod PartLemmas
pub mod RefusedLemmas
mod PutLemmas
mod RowRefusedLemmas
mod StopLemmas
