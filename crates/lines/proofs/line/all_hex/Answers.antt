-- `lines::line::all_hex` meets its contract: what is folded is whether the bytes so far are digits. Assumes nothing.
use Rattle.std.proofs.Common.{◌≡◌, length, subst, ap, ◌∙◌, rules}
use Rattle.std.proofs.lemmas.Fn.{fold_over, slice_gives, fronts}
use Rattle.lines.specs.Line.{hex_part}
use Rattle.lines.proofs.Digits.{hex_behind, hex_none}
use Rattle.lines.proofs.line.all_hex.Goals as goal

pub returns : goal.returns
returns g c =
    let all : c.fold.result ≡ hex_part c.args.bytes.now 0 (length c.args.bytes.now) = subst (λ l. c.fold.result ≡ hex_part l 0 (length l)) c.iter.ensures.rest
    (fold_over fronts (λ y. y.now) _ (λ ys all. all ≡ hex_part ys 0 (length ys)) _ (λ ys a x b f' j k. let more = hex_behind ys x.now in search rules)
    _ _ _ _ (slice_gives c.iter.result) hex_none c.fold.ensures.ran) in
    all ∙ ap (hex_part c.args.bytes.now 0) c.told-bytes
