-- Document 01's cases, in one list under one statement, in 01's order and each under 01's words, with those of document 02 behind them, over
-- the definitions that the code is proved to meet. negsuc n is -(n + 1). Zones, channels and fans count from 0. Assumes nothing.
use Rattle.std.specs.Prelude.{◌≡◌, refl, pos, negsuc}
use Rattle.map.specs.Tables.{defaults}
use Rattle.temperature.specs.declared.Stated.TheVariants.{Halves, Sixteenths}
use Rattle.temperature.specs.Temperature.{stated_reading}
use Rattle.temperature.specs.Cases as temperature
use Rattle.state.specs.Parts.{register_at}
use Rattle.state.specs.With.{with_register}
use Rattle.state.specs.PowerOn.{default_setup, power_on, at_rest}
use Rattle.state.specs.Made.{fresh}
use Rattle.sense.specs.Errors.{fan_limit, fan_limit_at}
use Rattle.sense.specs.Events.{took_pin, reset_file, took_reset}
use Rattle.sense.specs.Cases as sense
use Rattle.bus.specs.Cases as bus
use Rattle.drive.specs.Cases as drive
use Rattle.event.specs.Event.{index_in, reading_within, stated_in, event_in, refusal_of}
use Rattle.event.specs.Session.{session_answers}
use Rattle.settings.specs.Cases as settings
use Rattle.determined.specs.Printed.{printed}
use Rattle.determined.specs.PrintedVolts.{volts_printed}
use Rattle.determined.specs.PrintedFans.{fans_printed}
use Rattle.determined.specs.PrintedOffsets.{offsets_printed}
use Rattle.determined.specs.PrintedSixteenths.{fine_printed}
use Rattle.determined.specs.PrintedMasks.{masks_printed}
use Rattle.determined.specs.PrintedBlocks.{blocks_printed, rooms, too_many}
use Rattle.state.specs.Refusal.{number_or_0, number_of}
use Rattle.determined.specs.ProvedCases.{fresh_with, temperature_refusal, Cases}

-- facts that stand in no other crate
fan_limit_lem : fan_limit_at fresh.registers 0 ≡ 0x3FFF
unfolding fan_limit_at fan_limit power_on at_rest default_setup defaults
fan_limit_lem = refl

limit : register_at (took_reset (fresh_with 0x9C 80)) 0x9C ≡ 80
unfolding took_reset reset_file register_at with_register power_on at_rest default_setup defaults
limit = refl

ranges : (temperature_refusal 1 (Sixteenths (negsuc 2031)) ≡ 0) × (temperature_refusal 1 (Sixteenths (negsuc 2032)) ≡ 2) × (temperature_refusal 5 (Sixteenths (pos 2040)) ≡ 0) × (temperature_refusal 5 (Sixteenths (pos 2041)) ≡ 2) × (temperature_refusal 6 (Sixteenths (pos 0)) ≡ 2) × (temperature_refusal 1 (Halves (negsuc 253)) ≡ 0) × (temperature_refusal 1 (Halves (negsuc 254)) ≡ 2) × (temperature_refusal 1 (Halves (pos 255)) ≡ 0) × (temperature_refusal 1 (Halves (pos 256)) ≡ 2)
unfolding number_or_0 number_of refusal_of event_in index_in stated_in reading_within
ranges = (refl, refl, refl, refl, refl, refl, refl, refl, refl)

pub all : Cases
unfolding sense.errors_at sense.limited sense.errors_again sense.read_twice sense.bounded sense.sourced sense.zoned sense.zone_errors sense.asleep sense.errors_asleep sense.standing sense.missed_asleep bus.written bus.zone_three took_pin stated_reading
all = record {
  lines = printed;
  events = session_answers;
  minus_one = (temperature.cases).0;
  lowest = (temperature.cases).1.0;
  highest = (temperature.cases).2;
  eleven_none = (sense.fed).1;
  eleven_one = (sense.fed).0;
  channel_seven = ((sense.channel_seven).0, (sense.channel_seven).3, (sense.channel_seven).1, (sense.channel_seven).2);
  fan_unwatched = (fan_limit_lem, (sense.missing_fan).0);
  step_from_twelve = (drive.steps).0;
  step_from_none = (drive.steps).1;
  missing_mark = (temperature.byte_cases).5;
  half_cleared = (bus.zone_writes).1;
  signed = (temperature.order_cases).4;
  reset_keeps = (sense.missing_fan).7;
  limit_kept = limit;
  latched = (bus.latch).0;
  blocks = blocks_printed;
  block_rooms = rooms;
  block_too_many = too_many;
  voltages = volts_printed;
  seven_unheld = ((sense.channel_seven_unheld).0, (sense.channel_seven_unheld).3, (sense.channel_seven_unheld).1, (sense.channel_seven_unheld).2);
  seven_below = ((sense.channel_seven_held).0, (sense.channel_seven_held).1);
  seven_above = ((sense.channel_seven_held).2, (sense.channel_seven_held).3);
  seven_across = ((sense.channel_seven_held).4, (sense.channel_seven_held).5, (sense.channel_seven_held).6, (sense.channel_seven_held).7);
  seven_sound = (sense.channel_seven_held).8;
  low_unmoved = ((sense.not_moved).0, (sense.not_moved).1, (sense.not_moved).2, (sense.not_moved).3);
  high_unmoved = ((sense.not_moved).4, (sense.not_moved).5, (sense.not_moved).6, (sense.not_moved).7);
  never_ended = ((sense.none_ends).1, (sense.none_ends).2, (sense.none_ends).3, (sense.none_ends).4);
  fan_counts_lem = fans_printed;
  search_up = ((drive.searches).0, (drive.searches).1);
  search_down = (drive.searches).2;
  search_ends = ((drive.searches).4, (drive.searches).5, (drive.searches).6);
  search_most = ((drive.searches).3, (drive.searches).7, (drive.searches).8);
  search_missing = (drive.searches).9;
  search_past = ((drive.searches).10, (drive.searches).11);
  offsets = offsets_printed;
  offset_ends = settings.offsets_now;
  hysteresis_ends = ((settings.others_now).2, (settings.others_now).3, (settings.others_now).4, (settings.others_now).5);
  offset_before = ((settings.offsets_before).0, (settings.offsets_before).1, (settings.offsets_before).2, (settings.offsets_before).3, (settings.offsets_before).4, (settings.offsets_before).5, (settings.offsets_before).6, (settings.offsets_before).7);
  tall_unreached = ((drive.tallest).1, (drive.tallest).2, (drive.tallest).4, (drive.tallest).5);
  tall_exact = ((drive.tallest).6, (drive.tallest).7, (drive.tallest).8, (drive.tallest).9);
  lowest_base = ((drive.lowest).0, (drive.lowest).6, (drive.lowest).9, (drive.lowest).10);
  sixteenths = fine_printed;
  same_temperature = (temperature.order_cases).0;
  fine_range = ranges;
  fine_shown = temperature.fine_cases;
  fraction_cleared = (bus.zone_writes).2;
  rest_cleared = ((bus.zone_writes).4, (bus.zone_writes).5, (bus.zone_writes).6);
  fine_steps = ((drive.fine_steps).0, (drive.fine_steps).1, (drive.fine_steps).2, (drive.fine_steps).3, (drive.fine_steps).4, (drive.fine_steps).5);
  fine_boosts = ((drive.fine_boosts).0, (drive.fine_boosts).1, (drive.fine_boosts).2, (drive.fine_boosts).3);
  fine_hotter = (temperature.order_cases).1;
  masks = masks_printed;
  zone_beyond = ((sense.zone_one_lem).0, (sense.zone_one_lem).1, (sense.zone_one_lem).2, (sense.zone_one_lem).3);
  zone_signed = sense.zone_signed;
  zone_unwatched = sense.zone_defaults;
  zone_not_enabled = ((sense.zone_enabled_lem).0, (sense.zone_enabled_lem).1);
  zone_groups = ((sense.zone_one_lem).4, (sense.zone_one_lem).5);
  zone_missing = ((sense.zone_enabled_lem).2, (sense.zone_enabled_lem).3, (sense.zone_enabled_lem).4, (sense.zones_missed).0, (sense.zones_missed).1, (sense.zones_missed).2);
  seven_masked = ((sense.channel_seven_masked).0, (sense.channel_seven_masked).1, (sense.channel_seven_masked).4, (sense.channel_seven_masked).5, (sense.channel_seven_masked).3, (sense.channel_seven_masked).6);
  standing_masked = sense.standing_masked;
  twelve_masked = sense.channel_twelve_masked;
  fan_masked_lem = sense.fan_one_masked;
  zone_masked_lem = sense.zone_one_masked;
  others_masked = sense.others_masked;
}
