-- `stored::naming::key_of` meets its contract.
use Rattle.stored.specs.inside.Naming.{key_by}
use Rattle.stored.proofs.naming.key_of.Goals as goal

pub returns : goal.returns
unfolding key_by
returns c =
    rw (
      c.four_idle-idle.ensures,
      c.four_idle-idle4.ensures,
      c.four_first-first.ensures,
      c.four_first-first4.ensures,
    )
