pub mod Feed
pub mod FeedRuns
pub use Rattle.np_message.specs.Encoding
pub use Rattle.np_message.specs.Decoding
pub use Rattle.np_message.specs.Faults
pub use Rattle.np_wire_laws.specs.Laws
pub use Rattle.np_wire_decode.specs.Reading
