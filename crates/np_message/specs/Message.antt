-- A message by its parts. (This project's own.)
use Rattle.std.specs.Prelude.{List}
use Rattle.np_proxy_release.specs.declared.release.Release.{Release}
use Rattle.np_message.specs.declared.depth.Depth.{Depth}
use Rattle.np_message.specs.declared.payload.Payload.{Payload}

pub record Message : Type 0 where
  pub depth : Depth
  pub releases : List Release  -- what is given back of the receiver's objects
  pub body : Payload
