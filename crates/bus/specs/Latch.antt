-- Document 01, "Bus answers": the slave address and its latch. Assumes nothing.
use Rattle.std.specs.Prelude.{Bool, false, ℕ, ◌/◌, eqb, Option, Some, None}
use Rattle.laws.specs.Pick.{pick}
use Rattle.map.specs.Slave.{slave_address}
use Rattle.state.specs.declared.Chip.{Chip}
use Rattle.state.specs.declared.Pin.{Pin}
use Rattle.state.specs.With.{with_pin}

-- "The address is latched, from the pin's level at that moment, at the first transaction whose top five address bits are 01011, even if that
-- one is not for us. Later pin levels change nothing." An address has seven bits, so those are its quotient by 4.
unfoldable pub latch_by : Option ℕ → ℕ → ℕ → Option ℕ
latch_by None level address = pick (eqb (address / 4) 0x0B) (Some (slave_address level)) None
latch_by (Some ours) level address = Some ours

unfoldable pub latch_after : Pin → ℕ → Option ℕ
latch_after p address = latch_by p.latch p.level address

-- the pin as a transaction leaves it
unfoldable pub transacted_pin : Pin → ℕ → Pin
transacted_pin p address = record { level = p.level; latch = latch_after p address }

-- the latched address is the transaction's
unfoldable pub is_ours : Option ℕ → ℕ → Bool
is_ours None address = false
is_ours (Some ours) address = eqb ours address

-- the chip as the transaction finds it, its latch set
unfoldable pub transacted : Chip → ℕ → Chip
transacted c address = with_pin c (transacted_pin c.pin address)
