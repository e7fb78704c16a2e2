-- The names of entries. (This project's own.)
use Rattle.np_values.specs.declared.name.Side.TheVariants.{Page}
use Rattle.np_values.specs.declared.name.Name.{Name}
use Rattle.np_proxy_release.specs.declared.release.Release.{Release}

-- the name of a name
abbrev pub itself : Name → Name
itself x = x

-- releases have no side: they are in the order of names of one side
abbrev pub release_name : Release → Name
release_name r = record { side = Page; instance = r.instance; serial = r.serial }
