-- The count of errors and ALERT, and what a tick marks: a watched reading that is still missing, and not masked, cannot look healthy.
-- Assumes nothing.
use Rattle.std.specs.Prelude.{◌≡◌, false, List, ℕ, suc, ◌<◌, T, length, get_or, Option, None}
use Rattle.std.proofs.Common.{◌∙◌, arith}
use Rattle.std.specs.Float.Ieee.Bits.{is_true}
use Rattle.masks.specs.Masks.{zone_masked, volt_masked, fan_masked}
use Rattle.masks.specs.Table.{zone_same, volt_same, fan_same}
use Rattle.temperature.specs.declared.Reading.TheVariants as reading
use Rattle.state.specs.declared.Chip.{Chip}
use Rattle.state.specs.Parts.{no_zone, no_gauge, zone_at, volt_at, fan_at}
use Rattle.sense.specs.Errors.{marked_volt, marked_fan, low_limit, high_limit, fan_limit_at}
use Rattle.sense.specs.ZoneLimits.{zone_number, zone_watched, marked_zone}
use Rattle.sense.specs.Missing.{volt_watched, fan_watched, missed_volt, missed_fan, missed_zone, missed_volts, missed_fans, missed_zones, missed_file, missed}
use Rattle.sense.specs.Marks.{Marks, marks_then, VoltStands, FanStands, ZoneStands, stands_stay}
use Rattle.sense.proofs.Marks.{volt_stands, fan_stands, zone_stands, missed_volts_marks, missed_fans_marks, missed_zones_marks}
use Rattle.temperature.specs.declared.Reading.{Reading}
use Rattle.sense.specs.Alerts.{marks_masks, low_same, high_same, fan_limit_same, watched_same}

module _ (file : List ℕ) (gauges : List (Option ℕ)) (i : ℕ) (none : get_or gauges i no_gauge ≡ None) where
  missed_volts_stand : i < 16 → length file ≡ 256 → T (volt_watched (low_limit file i) (high_limit file i)) → volt_masked file i ≡ false → VoltStands (missed_volts file gauges 16) i
  unfolding missed_volts missed_volt
  missed_volts_stand l long w u =
      let m = missed_volts_marks file gauges 0 i (omega arith) (omega arith) in
      let e : missed_volts file gauges (suc i) ≡ marked_volt (missed_volts file gauges i) i = rw (none, low_same m i, high_same m i, is_true (volt_watched (low_limit file i) (high_limit file i)) w) in
      stands_stay (missed_volts_marks file gauges (suc i) 16 l (omega arith)) (rw e (volt_stands (missed_volts file gauges i) i l (volt_same (marks_masks m) i ∙ u) (m.long ∙ long)))

  missed_fans_stand : i < 4 → length file ≡ 256 → T (fan_watched (fan_limit_at file i)) → fan_masked file i ≡ false → FanStands (missed_fans file gauges 4) i
  unfolding missed_fans missed_fan
  missed_fans_stand l long w u =
      let m = missed_fans_marks file gauges 0 i (omega arith) (omega arith) in
      let e : missed_fans file gauges (suc i) ≡ marked_fan (missed_fans file gauges i) i = rw (none, fan_limit_same m i, is_true (fan_watched (fan_limit_at file i)) w) in
      stands_stay (missed_fans_marks file gauges (suc i) 4 l (omega arith)) (rw e (fan_stands (missed_fans file gauges i) i (fan_same (marks_masks m) i ∙ u) (m.long ∙ long)))

missed_zones_stand : (file : List ℕ) (zones : List Reading) (i : ℕ) → get_or zones i no_zone ≡ reading.Missing → i < 6 → length file ≡ 256 → T (zone_watched file i) → zone_masked file (zone_number i) ≡ false → ZoneStands (missed_zones file zones 6) i
unfolding missed_zones missed_zone
missed_zones_stand file zones i none l long w u =
    let m = missed_zones_marks file zones 0 i (omega arith) (omega arith) in
    let e : missed_zones file zones (suc i) ≡ marked_zone (missed_zones file zones i) i = rw (none, watched_same m i, is_true (zone_watched file i) w) in
    stands_stay (missed_zones_marks file zones (suc i) 6 l (omega arith)) (rw e (zone_stands (missed_zones file zones i) i (zone_same (marks_masks m) (zone_number i) ∙ u) (m.long ∙ long)))

module _ (c : Chip) where
  abbrev volts_done : List ℕ
  volts_done = missed_volts c.registers c.volts 16

  abbrev fans_done : List ℕ
  fans_done = missed_fans volts_done c.fans 4

  volts_mark : Marks c.registers volts_done
  unfolding missed_volts
  volts_mark = missed_volts_marks c.registers c.volts 0 16 (omega arith) (omega arith)

  fans_mark : Marks volts_done fans_done
  unfolding missed_fans
  fans_mark = missed_fans_marks volts_done c.fans 0 4 (omega arith) (omega arith)

  zones_mark : Marks fans_done (missed c).registers
  unfolding missed missed_file missed_zones
  zones_mark = missed_zones_marks fans_done c.zones 0 6 (omega arith) (omega arith)

  -- a tick's marks set error bits and change nothing else of the file
  pub missed_marks : Marks c.registers (missed c).registers
  missed_marks = marks_then volts_mark (marks_then fans_mark zones_mark)

  -- a watched voltage that is missing at a tick, and not masked, has its bit standing in both groups
  pub missed_volt_stands : (i : ℕ) → i < 16 → length c.registers ≡ 256 → volt_at c i ≡ None → T (volt_watched (low_limit c.registers i) (high_limit c.registers i)) → volt_masked c.registers i ≡ false → VoltStands (missed c).registers i
  unfolding volt_at
  missed_volt_stands i l long e w u =
      stands_stay (marks_then fans_mark zones_mark) (missed_volts_stand c.registers c.volts i e l long w u)

  -- so has a watched fan
  pub missed_fan_stands : (i : ℕ) → i < 4 → length c.registers ≡ 256 → fan_at c i ≡ None → T (fan_watched (fan_limit_at c.registers i)) → fan_masked c.registers i ≡ false → FanStands (missed c).registers i
  unfolding fan_at
  missed_fan_stands i l long e w u =
      stands_stay zones_mark (missed_fans_stand volts_done c.fans i e l (volts_mark.long ∙ long) (rw (fan_limit_same volts_mark i) w) (fan_same (marks_masks volts_mark) i ∙ u))

  -- and a watched zone
  pub missed_zone_stands : (i : ℕ) → i < 6 → length c.registers ≡ 256 → zone_at c i ≡ reading.Missing → T (zone_watched c.registers i) → zone_masked c.registers (zone_number i) ≡ false → ZoneStands (missed c).registers i
  unfolding zone_at missed missed_file
  missed_zone_stands i l long e w u =
      let m = marks_then volts_mark fans_mark in
      missed_zones_stand fans_done c.zones i e l (m.long ∙ long) (rw (watched_same m i) w) (zone_same (marks_masks m) (zone_number i) ∙ u)
