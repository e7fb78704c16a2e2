pub mod Taken
pub mod ActionRows
pub mod CommandRows
pub mod ActionForms
pub mod CommandForms
pub mod Tables
pub mod ActionTables
pub mod CommandTables
