use Rattle.std.proofs.Common.{◌≡◌, ℕ, ◌+◌, ◌*◌, ◌/◌, ◌^◌, Bool, List, leb, length, ap, ◌∙◌, rules, tests, arith}
use Rattle.std.specs.Int.Digits.{number_from_digits}
use Rattle.std.proofs.lemmas.Iterator.{YieldsList-from_slice}
use Rattle.std.proofs.lemmas.Iterator.Adapters.{position_from-zero}
use Rattle.std.proofs.lemmas.Iterator.Search.{position_from_yields_List}
use Rattle.std.specs.List.{position, position_from}
use Rattle.models.specs.Judging.{lowest}
use Rattle.models.specs.Tables.{row}
use Rattle.models.proofs.Bytes.{lowest_row, shape_told}
use Rattle.models.proofs.tables.Table.stray_row.Goals as goal

pub returns : goal.returns
returns c =
    let n = c.args.self.now.size in
    let bytes = c.args.self.now.bytes.now in
    let rows = c.as_chunks.result.0.now in
    let shape = shape_told bytes n c.requires in
    let count : length bytes / 8 ≡ 256 + 32 * n = omega (arith, shape.2) in
    let test : List ℕ → Bool = λ chunk. leb (2 ^ n) (number_from_digits 256 chunk) in
    let first : c.position.result ≡ position test rows =
    position_from_yields_List test _ _ c.position.result c.position.ensures.ran (YieldsList-from_slice rows cc) (λ x b q k. search (rules, tests)) in
    first ∙ position_from-zero test rows
    ∙ ap (position_from test 0) c.as_chunks.ensures.front
    ∙ lowest_row (leb (2 ^ n)) (length bytes / 8) bytes
    ∙ ap (lowest (λ k. leb (2 ^ n) (row bytes k))) count
