use Rattle.std.proofs.Common.{sym, ◌∙◌, arith}
use Rattle.std.proofs.lemmas.Bool.{ltb-true, true≢false}
use Rattle.std.proofs.lemmas.Nat.{mul-add-lt}
use Rattle.models.proofs.Bytes.{shape_told}
use Rattle.models.proofs.tables.TableSample.links.Goals as goal
use Rattle.models.proofs.tables.TableSample.links.Goals.{then-x-self, else-x-self, then-y-self, else-y-self, then-has_shape, else-has_shape}

pub row_of-requires : goal.row_of-requires
row_of-requires c =
    let n = c.args.self.now.size in
    elim c.if-has_shape.branch [
      | then-has_shape w ↦ elim c.if-y-self.branch [
        | then-y-self v ↦ elim c.if-x-self.branch [
          | then-x-self u ↦
              let told = shape_told c.args.self.now.bytes.now n (sym v.has_shape.ensures ∙ sym v.value-is ∙ w.if-has_shape.true) in
              let role = ltb-true c.args.role 32 (sym w.value-is ∙ c.if-role-lt-ROLE_NAMES.true) in
              omega (arith, mul-add-lt c.args.role n c.args.x 32 (omega arith) (omega arith))
          | else-x-self u ↦ absurd (omega (arith, ltb-true c.args.x n (sym u.value-is ∙ v.if-y-self.true)))
        ]
        | else-y-self v ↦ absurd (true≢false (sym w.if-has_shape.true ∙ v.value-is ∙ v.if-y-self.false))
      ]
      | else-has_shape w ↦ absurd (true≢false (sym c.if-role-lt-ROLE_NAMES.true ∙ w.value-is ∙ w.if-has_shape.false))
    ]
