pub mod EventLists
pub mod EventMarks
pub mod Once
