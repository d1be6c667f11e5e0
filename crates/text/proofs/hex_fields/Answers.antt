-- At turn i the walk stands where field k + i begins, and i bytes are filled in.
use Rattle.std.proofs.Common.{◌≡◌, refl, sym, ap, ap₂, ◌∙◌, ℕ, Bool, true, false, ◌&&◌, Option, Some, None, is_some, unwrap_or, add-zero, add_assoc, add-one, length, arith}
use Rattle.laws.specs.Left.{left_part}
use Rattle.laws.specs.Pick.{both}
use Rattle.laws.specs.Every.{every, every_none}
use Rattle.laws.specs.Tab.{tab_none, tab_more, tab_done}
use Rattle.text.specs.Hex.{hex_byte_of, is_hex, hex_value, hexes_spelt, hexes_of}
use Rattle.text.specs.Walk.{field_first, from_field, from_next}
use Rattle.text.proofs.hex_fields.Goals as goal

hex_spelt : (spelt : Bool) (hex : Option ℕ) → (spelt && is_some hex) ≡ both spelt (is_hex hex)
unfolding is_hex
hex_spelt true None = refl
hex_spelt true (Some b) = refl
hex_spelt false None = refl
hex_spelt false (Some b) = refl

hex_or_none : (hex : Option ℕ) → unwrap_or hex 0 ≡ hex_value hex
unfolding hex_value
hex_or_none None = refl
hex_or_none (Some b) = refl

pub loop-byte-init : goal.loop-byte-init
unfolding hexes_spelt hexes_of
loop-byte-init c =
    record { stands = rw add-zero c.field_start-at.ensures; all_spelt = sym (every_none _); filled = tab_none _ _ }

pub loop-byte-preserved : goal.loop-byte-preserved
unfolding hexes_spelt hexes_of every
loop-byte-preserved c =
    let i = c.loop-byte.byte-index in
    let so_far = c.loop-byte.invariant in
    let first = rw (left_part c.args.s.now c.loop-byte.at, ← field_first) at c.first_field.ensures in
    let hex = c.hex_byte-hex.ensures ∙ ap hex_byte_of (first ∙ from_field so_far.stands) in
    record {
      stands = rw (← add_assoc) (from_next so_far.stands c.next_field-at.ensures.within c.next_field-at.ensures.holds);
      all_spelt = rw (add-one, c.is_some-spelt.ensures) (hex_spelt c.loop-byte.spelt _ ∙ ap₂ both so_far.all_spelt (ap is_hex hex));
      filled = tab_more _ i _ _ (omega arith) (c.unwrap_or.ensures ∙ hex_or_none _ ∙ ap hex_value hex) so_far.filled;
    }

pub returns : goal.returns
unfolding hexes_of
returns c =
    let e : c.loop-byte.byte-index ≡ length c.args.bytes.now = omega arith in
    (rw (← e) c.loop-byte.invariant.all_spelt, tab_done _ _ c.loop-byte.byte-index _ c.loop-byte.invariant.filled e (omega arith))
