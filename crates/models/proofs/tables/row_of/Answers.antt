use Rattle.std.proofs.Common.{◌≡◌, ◌/◌, [], get_or, length, ap, ◌∙◌, arith}
use Rattle.std.specs.Int.Digits.{number_from_digits}
use Rattle.terms.specs.Tables.{weight}
use Rattle.models.specs.Tables.{row}
use Rattle.models.proofs.Bytes.{chunk_row, row_place}
use Rattle.models.proofs.tables.row_of.Goals as goal

pub returns : goal.returns
returns c =
    let bytes = c.args.bytes.now in
    let chunk = ap (λ rows. get_or rows c.args.k []) c.as_chunks.ensures.front ∙ chunk_row (length bytes / 8) c.args.k bytes (omega (arith, c.requires)) in
    let value : c.number_of.result ≡ row bytes c.args.k = c.number_of.ensures ∙ ap (number_from_digits 256) chunk in
    record { value = value; bits = λ x h. ap (λ w. weight w x) value ∙ row_place bytes c.args.k x (λ i within. omega (arith, c.type_inv.bytes i)) c.requires h }
