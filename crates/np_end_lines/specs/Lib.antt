pub mod Endings
pub mod FixedEnds
pub mod ScriptLines
pub use Rattle.np_model.specs.Journal
pub use Rattle.np_end_stops.specs.Causes
pub use Rattle.np_end_stops.specs.Status
