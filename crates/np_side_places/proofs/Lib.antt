pub mod ValueLists
pub mod Numbers
pub mod Steps
