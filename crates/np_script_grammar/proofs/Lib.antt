mod WorkedLines
mod WorkedScripts
pub mod AllFields
