use Rattle.std.proofs.Common.{◌≡◌, Some, rules}
use Rattle.np_model_scripts.specs.Served.{SaysPage, served_page}
use Rattle.np_model_scripts.proofs.serve.read_page.Goals as goal

pub returns-in-Ok-Some : goal.returns-in-Ok-Some
returns-in-Ok-Some c =
    let served : served_page c.in-Ok.script ≡ Some c.in-Ok-Some.page = search rules in
    let says : SaysPage c.args.bytes.now c.in-Ok-Some.page = record { script = c.in-Ok.script; is_script = c.in-Ok.ensures.ok; served = served } in
    record { page = (says, (c.served_pages_are_well_formed.ensures.law c.args.bytes.now c.in-Ok-Some.page says).0.fits) }
