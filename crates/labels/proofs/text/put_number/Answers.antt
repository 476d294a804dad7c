use Rattle.std.proofs.Common.{◌≡◌, ◌∙◌, ap, length, arith, rules}
use Rattle.labels.specs.Text.{decimal}
use Rattle.labels.proofs.DecimalLaws.{decimal-text}
use Rattle.labels.proofs.text.put_number.Goals as goal

pub put_text-requires : goal.put_text-requires
put_text-requires g c =
    let same : c.as_bytes.result.now ≡ decimal c.args.x = c.as_bytes.ensures.value ∙ c.format.ensures.text ∙ decimal-text c.args.x (omega arith) in
    let long = ap length same in
    (search rules, omega arith)

pub returns : goal.returns
returns g c =
    let same : c.as_bytes.result.now ≡ decimal c.args.x = c.as_bytes.ensures.value ∙ c.format.ensures.text ∙ decimal-text c.args.x (omega arith) in
    cc
