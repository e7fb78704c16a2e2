pub mod Levels
pub mod Served
pub mod Gives
pub mod Serves
pub mod Laws
pub use Rattle.np_script_grammar.specs.Grammar
pub use Rattle.np_script_grammar.specs.Refusals
pub use Rattle.np_script_grammar.specs.Forms
