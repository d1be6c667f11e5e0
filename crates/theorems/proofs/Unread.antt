-- A sensor without a reading: it has none at power-on, it keeps none until it is given one, and watched it looks broken. Assumes nothing.
use Rattle.std.specs.Prelude.{◌≡◌, false, [], ℕ, ◌≤◌, ◌<◌, T, length}
use Rattle.std.proofs.Math.Path.{refl}
use Rattle.std.proofs.Common.{◌∙◌, arith, ltb-true}
use Rattle.std.proofs.Math.Dec.{not_T}
use Rattle.std.specs.Float.Ieee.Bits.{is_true}
use Rattle.map.specs.Bits.{is_set}
use Rattle.map.specs.Names.{CONFIGURATION, GMSK}
use Rattle.map.specs.Blocks.{block_firsts, block_counts, block_of}
use Rattle.masks.specs.Table.{volt_same, fan_same, zone_same}
use Rattle.state.specs.declared.Chip.{Chip}
use Rattle.state.specs.Parts.{register_at}
use Rattle.sense.specs.Missing.{missed}
use Rattle.sense.specs.Marks.{Status, Stands}
use Rattle.sense.specs.ZoneLimits.{zone_number, number_lt}
use Rattle.sense.specs.Alerts.{Alerts, volt_alerts, fan_alerts, zone_alerts, marks_masks}
use Rattle.sense.proofs.Alerts.{missed_marks, missed_volt_stands, missed_fan_stands, missed_zone_stands}
use Rattle.event.specs.declared.Event.TheVariants.{Tick}
use Rattle.event.specs.Event.{stepped_chip}
use Rattle.event.specs.Run.{Given, given_step}
use Rattle.event.specs.Ticking.{tick_leaves, tick_shown, tick_answers}
use Rattle.theorems.specs.Taken.{IsTaken}
use Rattle.theorems.specs.Gauges.{volt_stays, fan_stays}
use Rattle.theorems.specs.ShownBytes.{ShowsBit, status_shown, status_read}
use Rattle.theorems.specs.ShownBlocks.{blocks_show}
use Rattle.theorems.proofs.ZoneReadings.{step_lost}
use Rattle.theorems.specs.Sensors.{Sensor, volt, fan, zone, IsMissing, is_watched, is_masked, GivesTaken, count, speed, temperature, bmc_register, host_register, error_place, error_bit, LooksBroken}

-- an event that does not give it one leaves it without
pub step_unread : (x : Sensor) (c : Chip) (g : Given) → (IsTaken g → GivesTaken c g x → ⊥) → IsMissing x c → IsMissing x (given_step c g).chip
unfolding IsMissing
step_unread (volt i l) c g h m = volt_stays c i g (λ t n e. h t (count n e)) m
step_unread (fan i l) c g h m = fan_stays c i g (λ t n e. h t (speed n e)) m
step_unread (zone i l) c g h m = step_lost c i m g (λ t k. h t (temperature k))

-- ---- a tick

-- the registers of the error bits are error status registers
bmc_status : (x : Sensor) → Status (bmc_register x)
unfolding bmc_register
bmc_status (volt i l) = record { low = omega arith; high = omega arith }
bmc_status (fan i l) = record { low = omega arith; high = omega arith }
bmc_status (zone i l) = record { low = omega arith; high = omega arith }

host_status : (x : Sensor) → Status (host_register x)
unfolding host_register
host_status (volt i l) = record { low = omega arith; high = omega arith }
host_status (fan i l) = record { low = omega arith; high = omega arith }
host_status (zone i l) = record { low = omega arith; high = omega arith }

-- 40h to 47h, block F2h, and 48h to 4Fh, block F3h
bmc_place : (x : Sensor) → (0x40 ≤ bmc_register x) × (bmc_register x < 0x48)
unfolding bmc_register
bmc_place (volt i l) = (omega arith, omega arith)
bmc_place (fan i l) = (omega arith, omega arith)
bmc_place (zone i l) = (omega arith, omega arith)

host_place : (x : Sensor) → (0x48 ≤ host_register x) × (host_register x < 0x50)
unfolding host_register
host_place (volt i l) = (omega arith, omega arith)
host_place (fan i l) = (omega arith, omega arith)
host_place (zone i l) = (omega arith, omega arith)

module _ (x : Sensor) (c : Chip) where
  -- a bit that stands in the file after the tick is shown
  bit_shown : {a : ℕ} → Status a → T (is_set (register_at (missed c) a) (error_bit x)) → ShowsBit (stepped_chip c Tick []).chip a (error_bit x)
  unfolding register_at
  bit_shown {a} s t =
      let after = (stepped_chip c Tick []).chip in
      (rw (status_read after a s, (tick_leaves c).registers) t, rw (status_shown after a s, (tick_leaves c).registers) t)

  -- a bit that the missing marks leave standing
  stands_broken : Stands (missed c).registers (bmc_register x) (host_register x) (error_bit x) → Alerts (missed c).registers → LooksBroken x c
  unfolding register_at tick_shown block_of block_firsts block_counts
  stands_broken s a = record {
    tick = tick_shown c;
    answers = tick_answers c;
    in_bmc = bmc;
    in_host = host;
    block_bmc = blocks_show _ _ _ _ refl (bmc_place x).0 (bmc_place x).1 bmc.1;
    block_host = blocks_show _ _ _ _ refl (host_place x).0 (host_place x).1 host.1;
    alert = rw (tick_leaves c).registers (λ clear. a.alert ∙ is_true _ (not_T (is_set (register_at (missed c) CONFIGURATION) GMSK) clear));
    errors = rw (tick_leaves c).registers (ltb-true 0 _ a.counted);
  }
    where
      bmc : ShowsBit (stepped_chip c Tick []).chip (bmc_register x) (error_bit x)
      bmc = bit_shown (bmc_status x) s.bmc

      host : ShowsBit (stepped_chip c Tick []).chip (host_register x) (error_bit x)
      host = bit_shown (host_status x) s.host

-- a watched sensor without a reading, and not masked
pub unread_broken : (x : Sensor) (c : Chip) → length c.registers ≡ 256 → IsMissing x c → T (is_watched x c) → is_masked x c.registers ≡ false → LooksBroken x c
unfolding IsMissing is_watched is_masked bmc_register host_register error_place
unread_broken (volt i l) c long m w u =
    let s = missed_volt_stands c i l long m w u in
    stands_broken (volt i l) c s (volt_alerts _ i l (volt_same (marks_masks (missed_marks c)) i ∙ u) s.bmc)
unread_broken (fan i l) c long m w u =
    let s = missed_fan_stands c i l long m w u in
    stands_broken (fan i l) c s (fan_alerts _ i l (fan_same (marks_masks (missed_marks c)) i ∙ u) s.bmc)
unread_broken (zone i l) c long m w u =
    let s = missed_zone_stands c i l long m w u in
    stands_broken (zone i l) c s (zone_alerts _ (zone_number i) (number_lt i l) (zone_same (marks_masks (missed_marks c)) (zone_number i) ∙ u) s.bmc)
