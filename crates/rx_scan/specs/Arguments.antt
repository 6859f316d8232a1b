-- The words of the command line.
use Prim.Native.String.{String}
use Rattle.std.specs.Prelude.{ℕ, zero, suc, ◌<◌, ◌≤◌, Bool, true, false, not, ◌&&◌, ◌==◌, nat_eq, List, [], ◌∷◌, Option, Some, None, option_map, codes, drop, if◌then◌else◌}
use Rattle.std.specs.List.{list_any, starts_with}
use Rattle.std.specs.Option.{option_or}
use Rattle.std.specs.Str.{bytes_eq}
use Rattle.rx_gen.specs.Numbers.{number_up_to}
use Rattle.rx_reader.specs.Reading.{◌∈◌}
use Rattle.rx_meta.specs.Config.{ConfigValue, nothing_set}
use Rattle.rx_scan.specs.declared.arguments.Call.{Call}
use Rattle.rx_scan.specs.declared.arguments.Call.TheVariants.{Reading, Generate}
use Rattle.rx_scan.specs.declared.arguments.Command.{Command}
use Rattle.rx_scan.specs.declared.arguments.Command.TheVariants.{Scanning, Explain}
use Rattle.rx_scan.specs.declared.arguments.Generating.{Generating}
use Rattle.rx_scan.specs.declared.arguments.Off.{Off}
use Rattle.rx_scan.specs.declared.arguments.Scan.{Scan}

-- the number, where it is not 0
abbrev pub not_zero : Option ℕ → Option ℕ
not_zero (Some (suc n)) = Some (suc n)
not_zero (Some zero) = None
not_zero None = None

-- the number of workers: 1 to 64, in decimal, without a sign or a leading zero
abbrev pub workers_of : List ℕ → Option ℕ
workers_of word = not_zero (number_up_to 64 word)

-- one of the letters: full DFA, lazy DFA, one-pass, backtracker, automatic prefilters
abbrev pub is_letter : ℕ → Bool
is_letter b = b ∈ "dhobp"

-- each is one of the letters, and none comes twice
abbrev pub are_letters : List ℕ → Bool
are_letters [] = true
are_letters (b ∷ bytes) = is_letter b && not (list_any (λ c. c == b) bytes) && are_letters bytes

-- one of the letters is this one
abbrev pub has : List ℕ → (letter : String) → Bool
has letters letter = list_any (λ b. b ∈ letter) letters

-- what the letters switch off
abbrev pub switched_off : List ℕ → Off
switched_off letters = record {
  dfa = has letters "d";
  hybrid = has letters "h";
  onepass = has letters "o";
  backtrack = has letters "b";
  auto_prefilter = has letters "p";
}

-- the configuration of a scan's regex without these, in which nothing else is set
abbrev pub config_without : Off → ConfigValue
config_without off = record nothing_set {
  auto_prefilter = Some (not off.auto_prefilter);
  backtrack = Some (not off.backtrack);
  dfa = Some (not off.dfa);
  hybrid = Some (not off.hybrid);
  onepass = Some (not off.onepass);
}

abbrev pub is_nonempty : List ℕ → Bool
is_nonempty [] = false
is_nonempty (b ∷ bytes) = true

-- what is switched off: `off:` and one to five letters, each at most once
abbrev pub off_of : List ℕ → Option Off
off_of word =
    if starts_with nat_eq word (codes "off:") && is_nonempty (drop 4 word) && are_letters (drop 4 word) then Some (switched_off (drop 4 word)) else None

-- a scan with so many workers, and with all that there is; one with four workers, and without this
abbrev pub with_workers : ℕ → Scan
with_workers n = record { workers = n; off = switched_off [] }

abbrev pub without : Off → Scan
without off = record { workers = 4; off = off }

-- both are there
abbrev pub both_of : Option ℕ → Option Off → Option Scan
both_of (Some n) (Some off) = Some (record { workers = n; off = off })
both_of (Some n) None = None
both_of None off = None

-- what a scan's options ask for: the number of workers, then what is switched off; both may be left out
abbrev pub options_of : List (List ℕ) → Option Scan
options_of [] = Some (with_workers 4)
options_of (option ∷ []) = option_or (option_map with_workers (workers_of option)) (option_map without (off_of option))
options_of (workers ∷ off ∷ []) = both_of (workers_of workers) (off_of off)
options_of (workers ∷ off ∷ other ∷ words) = None

-- there are workers, where it is a scan
abbrev pub HasWorkers : Command → Type 0
HasWorkers (Scanning scan) = 0 < scan.workers
HasWorkers Explain = Unit {0}

abbrev pub has_none : List (List ℕ) → Bool
has_none [] = true
has_none (word ∷ words) = false

-- what the words ask for: `scan`, and its options; or `explain` alone
abbrev pub command_of : List (List ℕ) → Option Command
command_of [] = None
command_of (word ∷ options) =
    if bytes_eq word (codes "scan") then option_map Scanning (options_of options)
    else if bytes_eq word (codes "explain") then (if has_none options then Some Explain else None)
    else None

-- all three are there
abbrev pub asked_for : (workers seed count : Option ℕ) → Option Generating
asked_for None seed count = None
asked_for (Some workers) None count = None
asked_for (Some workers) (Some seed) None = None
asked_for (Some workers) (Some seed) (Some count) = Some (record { seed = seed; count = count; workers = workers })

-- the seed, how many haystacks, and the number of workers, which may be left out
abbrev pub generating_of : List (List ℕ) → Option Generating
generating_of [] = None
generating_of (seed ∷ []) = None
generating_of (seed ∷ count ∷ []) = asked_for (Some 4) (number_up_to 4294967295 seed) (number_up_to 1000000 count)
generating_of (seed ∷ count ∷ workers ∷ []) = asked_for (workers_of workers) (number_up_to 4294967295 seed) (number_up_to 1000000 count)
generating_of (seed ∷ count ∷ workers ∷ other ∷ words) = None

-- what was asked for is within its limits
abbrev pub IsGenerating : Generating → Type 0
IsGenerating asked = (asked.count ≤ 1000000) × (0 < asked.workers)

abbrev pub IsCall : Call → Type 0
IsCall (Reading command) = HasWorkers command
IsCall (Generate asked) = IsGenerating asked

-- what the words ask for: `gen` and its options, or a command over the input
abbrev pub call_of : List (List ℕ) → Option Call
call_of [] = None
call_of (word ∷ options) =
    if bytes_eq word (codes "gen") then option_map Generate (generating_of options) else option_map Reading (command_of (word ∷ options))

-- the words are those of a command over the input
abbrev pub is_reading : Option Call → Bool
is_reading None = false
is_reading (Some (Reading command)) = true
is_reading (Some (Generate asked)) = false
