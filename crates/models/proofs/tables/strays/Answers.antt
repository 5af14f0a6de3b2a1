use Rattle.std.proofs.Common.{◌∙◌}
use Rattle.std.proofs.lemmas.Bool.{le-ltb}
use Rattle.models.proofs.Bytes.{shifted_strays, never_strays}
use Rattle.models.proofs.tables.strays.Goals as goal

pub returns-then-n-lt-ELEMENT_LIMIT : goal.returns-then-n-lt-ELEMENT_LIMIT
returns-then-n-lt-ELEMENT_LIMIT c = shifted_strays c.args.row c.args.n

pub returns-else-n-lt-ELEMENT_LIMIT : goal.returns-else-n-lt-ELEMENT_LIMIT
returns-else-n-lt-ELEMENT_LIMIT c =
    le-ltb c.args.n 64 c.if-n-lt-ELEMENT_LIMIT.false ∙ never_strays c.args.row c.args.n c.ranges.row.fits c.if-n-lt-ELEMENT_LIMIT.false
