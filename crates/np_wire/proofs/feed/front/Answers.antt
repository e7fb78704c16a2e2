use Rattle.std.proofs.Common.{◌≡◌, take, arith}
use Rattle.std.specs.Int.{w32, from_be_bytes}
use Rattle.std.proofs.lemmas.Grind.{common_steps}
use Rattle.np_wire.proofs.Fronts.{front_is, front_short, front_found, front_refuses, whole_front}
use Rattle.np_wire.proofs.feed.front.Goals as goal

pub returns-then-bytes-lt4-clause-front : goal.returns-then-bytes-lt4-clause-front
returns-then-bytes-lt4-clause-front c = front_short c.args.at c.args.bytes.now (omega arith)

pub returns-clause-front : goal.returns-clause-front
returns-clause-front c =
    let n-is : c.from_be_bytes-size.result ≡ from_be_bytes w32 (take 4 c.args.bytes.now) = grind (arith, common_steps) in
    front_is c.args.at _ c.args.bytes.now _ c.sized.result (omega arith) n-is c.split_at.ensures.back c.sized.ensures.front

pub returns-clause-found : goal.returns-clause-found
returns-clause-found c = front_found c.read_is_encoded.ensures.law c.args.at c.args.bytes.now c.sized.result (λ i. omega (arith, c.type_inv.bytes i)) (returns-clause-front c)

pub returns-clause-fault : goal.returns-clause-fault
returns-clause-fault c = front_refuses c.fault_is_first.ensures.only c.args.at c.args.bytes.now c.sized.result (λ i. omega (arith, c.type_inv.bytes i)) (returns-clause-front c)

pub returns-clause-memory_whole : goal.returns-clause-memory_whole
returns-clause-memory_whole c =
    let n-is : c.from_be_bytes-size.result ≡ from_be_bytes w32 (take 4 c.args.bytes.now) = grind (arith, common_steps) in
    whole_front _ c.args.bytes.now _ c.sized.result (omega arith) n-is c.split_at.ensures.back c.sized.ensures.memory_whole
