-- Each call reads a fluent above the one before it.
use Rattle.std.proofs.Common.{◌-◌}
use Rattle.meaning.specs.Limits.{format}
use Rattle.ruling.proofs.readings.+each_reading.Given as goal

abbrev pub decreases-each_reading : goal.decreases-each_reading
decreases-each_reading l = format.fluents - l.f
