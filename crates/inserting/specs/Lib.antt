pub mod SubjectMeaning
pub mod Given
pub mod Needs
