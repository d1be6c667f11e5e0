-- What a line says by its letter, as the code finds it: of its pair, or where there is no number to hold. Assumes nothing.
use Rattle.parse.specs.Pairs.{event_pair}
use Rattle.parse.specs.Held.{alone_clamped, write_clamped, read_clamped, read_block_clamped, write_block_clamped}

pub ruleset by_letter = (event_pair, alone_clamped, write_clamped, read_clamped, read_block_clamped, write_block_clamped)
