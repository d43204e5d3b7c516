pub mod ChangeLists
pub mod Counts
pub mod MeaningLaws
