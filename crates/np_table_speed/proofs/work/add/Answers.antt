use Rattle.std.proofs.Common.{◌≡◌, subst, Some, IfSome, arith}
use Rattle.np_objects.specs.LiveObjects.{object_at, fresh}
use Rattle.np_objects.specs.Objects.{after_create}
use Rattle.np_table_speed.proofs.Idle.{all-made, all-others}
use Rattle.np_table_speed.proofs.work.add.Goals as goal

pub returns-in_err-push-in-Some : goal.returns-in_err-push-in-Some
returns-in_err-push-in-Some c =
    let made = subst (λ o. IfSome o (λ name. c.create.new.self ≡ after_create c.args.instance 0 c.args.store.now)) c.in-Some.is c.in_ok-name.ensures.created in
    let others = all-others c.live_objects_are_kept.ensures.law c.args.store.now c.create.new.self c.args.instance 0 c.args.names.now.items made (λ e. let a = c.create.ensures.full.1 e in let b = c.in_ok-name.was in let d = c.in-Some.is in cc) (omega arith) c.create.ensures.unused c.requires.idle in
    record { idle = rw c.in_err-push-in-Some.ensures.items others }

pub returns-in_ok-push-in-Some : goal.returns-in_ok-push-in-Some
returns-in_ok-push-in-Some c =
    let made = subst (λ o. IfSome o (λ name. c.create.new.self ≡ after_create c.args.instance 0 c.args.store.now)) c.in-Some.is c.in_ok-name.ensures.created in
    let seen = subst (λ o. IfSome o (λ name. object_at name c.create.new.self.live ≡ Some (fresh name 0))) c.in-Some.is c.in_ok-name.ensures.object in
    let all = all-made c.live_objects_are_kept.ensures.law c.args.store.now c.create.new.self c.args.instance 0 c.in-Some.name c.args.names.now.items made (λ e. let a = c.create.ensures.full.1 e in let b = c.in_ok-name.was in let d = c.in-Some.is in cc) (omega arith) c.create.ensures.unused seen c.requires.idle in
    record { idle = rw c.in_ok-push-in-Some.ensures.items all }
