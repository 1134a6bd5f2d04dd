-- The text of a series: a first line that names the cells, and a line for each bin.
use Rattle.std.specs.Prelude.{ℕ, ◌+◌, ◌/◌, ◌%◌, List, [], ◌∷◌, ◌++◌, Option, Some, None, codes, decimal}
use Rattle.std.specs.List.{flat_map}
use Rattle.shell_log.specs.declared.entry.Entry.{Entry}
use Rattle.log_report.specs.declared.bins.Bin.{Bin}
use Rattle.log_report.specs.declared.figures.Delays.{Delays}
use Rattle.log_report.specs.Bins.{series_of}

-- A number below 1000 in three digits.
abbrev pub three_digits : ℕ → List ℕ
three_digits n = (48 + n / 100) ∷ (48 + n / 10 % 10) ∷ (48 + n % 10) ∷ []

-- Thousandths with three decimals.
abbrev pub thousandths_text : ℕ → List ℕ
thousandths_text n = decimal (n / 1000) ++ 46 ∷ three_digits (n % 1000)

-- The last two cells of a line, the median of the delays and the 95th percentile, and the end of the line.
abbrev pub delay_cells : Option Delays → List ℕ
delay_cells None = 44 ∷ 10 ∷ []
delay_cells (Some d) = decimal d.median ++ 44 ∷ (decimal d.p95 ++ 10 ∷ [])

-- A number and the comma after it.
abbrev pub cell : ℕ → List ℕ
cell n = decimal n ++ 44 ∷ []

-- The cells of the bin's moments.
abbrev pub moment_cells : Bin → List ℕ
moment_cells b = cell b.from ++ cell b.to

-- The cells of what was offered, arrived and departed, in bytes, and of the packets that were dropped.
abbrev pub sum_cells : Bin → List ℕ
sum_cells b = cell b.offered ++ (cell b.arrived ++ (cell b.departed ++ cell b.dropped))

-- The cell of the rate.
abbrev pub rate_cell : Bin → List ℕ
rate_cell b = thousandths_text b.rate ++ 44 ∷ []

-- The line of a bin.
abbrev pub bin_line : Bin → List ℕ
bin_line b = moment_cells b ++ (sum_cells b ++ (rate_cell b ++ delay_cells b.delays))

-- The first line.
abbrev pub series_header : List ℕ
series_header =
    codes "from_ms,to_ms,offered_bytes,arrived_bytes,departed_bytes,dropped_packets,mbit_per_s,"
    ++ codes "delay_p50_ms,delay_p95_ms\n"

-- The text of the series of a log.
abbrev pub series_text : ℕ → List Entry → List ℕ
series_text every es = series_header ++ flat_map bin_line (series_of every es)
