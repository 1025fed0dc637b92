-- Where links and times stand in a record.
--
--   link_offset l  where a link stands
--   time_offset t  where a time stands
use Rattle.std.specs.Prelude.{ℕ}
use Rattle.fields.specs.declared.link.Link.{Link}
use Rattle.fields.specs.declared.link.Link.TheVariants.{Left, Right, Child}
use Rattle.fields.specs.declared.timestamp.Time.{Time}
use Rattle.fields.specs.declared.timestamp.Time.TheVariants.{Creation, Modified}

abbrev pub link_offset : Link → ℕ
link_offset Left = 68
link_offset Right = 72
link_offset Child = 76

abbrev pub time_offset : Time → ℕ
time_offset Creation = 100
time_offset Modified = 108
