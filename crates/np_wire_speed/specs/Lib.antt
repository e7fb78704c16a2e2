pub mod Work
pub use Rattle.np_wire.specs.Feed
