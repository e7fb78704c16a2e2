pub mod SaidBy
pub mod Actions
pub mod Commands
pub mod Laws
pub use Rattle.np_script_grammar.specs.Forms
pub use Rattle.np_script_grammar.specs.Tables
pub use Rattle.np_script_grammar.specs.Rows
pub use Rattle.np_script_grammar.specs.Takes
