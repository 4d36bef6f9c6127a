-- Which watchers are left.
use Rattle.std.specs.Prelude.{Bool, true, false}
use Rattle.plan_watch.specs.declared.stay.Stay.{Stay}
use Rattle.plan_watch.specs.declared.stay.Stay.TheVariants.{More, Done}

-- the answer is that it wants more
abbrev pub is_more : Stay → Bool
is_more More = true
is_more Done = false
