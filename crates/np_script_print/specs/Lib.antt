pub mod Printed
pub use Rattle.np_script_grammar.specs.Grammar
