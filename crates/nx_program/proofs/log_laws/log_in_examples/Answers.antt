use Rattle.std.proofs.Common.{◌≤◌, ◌<◌, ◌⊎◌, ℕ, pos, List, [], ◌∷◌, ◌++◌, ◌≡◌, Some, None, codes, length, refl, inl, inr}
use Rattle.std.proofs.Common.{arith, length-append, rules}
use Rattle.std.proofs.lemmas.List.Elements.{All-head}
use Rattle.std.specs.FinSet as set
use Rattle.std.specs.Ordering.{nat_cmp}
use Rattle.clap.proofs.OnLiterals.{clap_on_literals}
use Rattle.clap.specs.Words.{Row, Text}
use Rattle.clap.specs.declared.error.kind.ErrorKind.TheVariants as kind
use Rattle.jiff_core.proofs.CalendarLemmas.{days_from_civil-day_count}
use Rattle.jiff_core.proofs.MarchLemmas.{day_count-early}
use Rattle.jiff_core.proofs.SignedLemmas.{signed_arith}
use Rattle.nx_code.specs.Reading.{IsCapital}
use Rattle.nx_envelope.specs.Moment.{IsShownAs, last_moment}
use Rattle.nx_log.proofs.lemmas.texts.TimeTexts.{shown-length, time-long}
use Rattle.nx_log.specs.Times.{CouldBeDate, IsSince, NamesMoment, WritesTime}
use Rattle.std.specs.Str.Parse.{IsNumeral, digits_value}
use Rattle.std.specs.Char.{digit_value}
use Rattle.nx_log.specs.Places.{SaysPlace}
use Rattle.nx_program.specs.LogArguments.{Asks, IsReading, NamesLetters, given_to, has_flag, reading_of}
use Rattle.nx_program.specs.declared.log_arguments.Clash.TheVariants.{FromWithoutKept, JsonAndKeep, KeptAndSalvage, SinceBehindUntil}
use Rattle.nx_program.specs.declared.log_arguments.LogOption.TheVariants.{From, Since, Station}
use Rattle.nx_program.specs.declared.log_arguments.ReadAs.{ReadAs}
use Rattle.nx_program.proofs.lemmas.arguments.GivenValues.{given, off}
use Rattle.nx_program.proofs.lemmas.arguments.Arguments.{conflict_is_refusal}
use Rattle.nx_program.proofs.log_laws.log_in_examples.Goals as goal

-- the rows of all flags where none was given
abbrev all_off : List Row
all_off =
    off (codes "good") ∷ off (codes "last") ∷ off (codes "json") ∷ off (codes "keep")
    ∷ off (codes "kept") ∷ off (codes "salvage") ∷ []

-- no place is said
abbrev as_log : {values : List Row} {reading : ReadAs}
    → Asks SaysPlace (given_to From values) None
    → reading_of (has_flag (codes "kept") values) (has_flag (codes "salvage") values) None
    ≡ Some reading
    → IsReading values reading
as_log said asked = record { from = None; said = said; asked = asked }

first_second : IsShownAs 1735689600 (codes "2025-01-01 00:00:00")
first_second = record {
  year = 2025;
  month = 1;
  day = 1;
  date = (search rules, search rules, search rules);
  is_day = omega (
    arith,
    signed_arith,
    days_from_civil-day_count (pos 2025) 1 1,
    day_count-early (pos 2025) 12024 1 1 refl (search rules) (search rules) (search rules),
  );
  is_text = refl;
}

last_second : IsShownAs 1735775999 (codes "2025-01-01 23:59:59")
last_second = record {
  year = 2025;
  month = 1;
  day = 1;
  date = (search rules, search rules, search rules);
  is_day = omega (
    arith,
    signed_arith,
    days_from_civil-day_count (pos 2025) 1 1,
    day_count-early (pos 2025) 12024 1 1 refl (search rules) (search rules) (search rules),
  );
  is_text = refl;
}

last_of_minute : IsShownAs 1735692059 (codes "2025-01-01 00:40" ++ codes ":59")
last_of_minute = record {
  year = 2025;
  month = 1;
  day = 1;
  date = (search rules, search rules, search rules);
  is_day = omega (
    arith,
    signed_arith,
    days_from_civil-day_count (pos 2025) 1 1,
    day_count-early (pos 2025) 12024 1 1 refl (search rules) (search rules) (search rules),
  );
  is_text = refl;
}

the_minute : WritesTime (codes ":59") (codes "2025-01-01 00:40") 1735692059
the_minute = record {
  civil = codes "2025-01-01 00:40";
  shown = last_of_minute;
  between = 32;
  is_between = inr refl;
  zone = [];
  utc = inl refl;
  spelled = refl;
}

-- a text of one digit names the moment of its number
digit_names : (of_day of_minute text : List ℕ) (moment : ℕ) → length text ≡ 1
    → moment ≡ digits_value 10 text → IsNumeral 10 text → moment ≤ last_moment
    → NamesMoment of_day of_minute text moment
digit_names of_day of_minute text moment one value digits in_range = (
  in_range,
  inl (record { digits = digits; no_date = no_date; value = value }),
)
  where
    no_date : CouldBeDate text → ⊥
    no_date (inl year) = omega (arith, one, year)
    no_date (inr date) = omega (arith, one, date)

-- texts of a few bytes name no time of day and no date
short_is_none : (text : List ℕ) (moment : ℕ) → length text ≤ 4
    → WritesTime [] text moment ⊎ WritesTime (codes ":00") text moment
    ⊎ IsShownAs moment (text ++ codes " 00:00:00") → ⊥
short_is_none text moment short (inl w) =
    omega (arith, short, (time-long [] text moment w).least)
short_is_none text moment short (inr (inl w)) =
    omega (arith, short, (time-long (codes ":00") text moment w).least)
short_is_none text moment short (inr (inr s)) =
    omega (
      arith,
      short,
      shown-length moment (text ++ codes " 00:00:00") s,
      length-append text (codes " 00:00:00"),
    )

now_is_none : (moment : ℕ) → IsSince (codes "now") moment → ⊥
now_is_none moment named = elim named.1 [
  | inl written ↦ let digit : 23 < 10 = written.digits.1.0 in absurd (omega (arith, digit))
  | inr other ↦ short_is_none (codes "now") moment (omega arith) other
]

year_is_none : (moment : ℕ) → IsSince (codes "2025") moment → ⊥
year_is_none moment named = elim named.1 [
  | inl written ↦ written.no_date (inl refl)
  | inr other ↦ short_is_none (codes "2025") moment (omega arith) other
]

plus_is_none : (place : ℕ) → SaysPlace (codes "+5") place → ⊥
plus_is_none place said =
    let digit : digit_value 43 < 10 = said.digits.1.0 in absurd (omega (arith, digit))

small_e_is_none : (letters : set.FinSet nat_cmp) → NamesLetters (codes "e") letters → ⊥
small_e_is_none letters named =
    let capital = All-head IsCapital 101 [] named.0.capitals in
    let most = capital.1 in
    absurd (omega arith)

pub returns : goal.returns
unfolding clap_on_literals
returns c = record {
  all = λ program. record {
    taken = refl;
    values = all_off;
    command = refl;
    given = (
      record {
        stations = tt;
        subjects = tt;
        channel = tt;
        since = tt;
        until = tt;
        good = refl;
        last = refl;
      },
      tt,
      refl,
      as_log tt refl,
    );
  };
  flags = λ program. record {
    taken = refl;
    values = given (codes "json") (codes "true") ∷ given (codes "good") (codes "true")
        ∷ off (codes "last") ∷ off (codes "keep") ∷ off (codes "kept") ∷ off (codes "salvage")
        ∷ [];
    command = refl;
    given = (
      record {
        stations = tt;
        subjects = tt;
        channel = tt;
        since = tt;
        until = tt;
        good = refl;
        last = refl;
      },
      tt,
      refl,
      as_log tt refl,
    );
  };
  last = λ program. record {
    taken = refl;
    values = given (codes "last") (codes "true") ∷ off (codes "good") ∷ off (codes "json")
        ∷ off (codes "keep") ∷ off (codes "kept") ∷ off (codes "salvage") ∷ [];
    command = refl;
    given = (
      record {
        stations = tt;
        subjects = tt;
        channel = tt;
        since = tt;
        until = tt;
        good = refl;
        last = refl;
      },
      tt,
      refl,
      as_log tt refl,
    );
  };
  keep = λ program. record {
    taken = refl;
    values = given (codes "keep") (codes "true") ∷ off (codes "good") ∷ off (codes "last")
        ∷ off (codes "json") ∷ off (codes "kept") ∷ off (codes "salvage") ∷ [];
    command = refl;
    given = (
      record {
        stations = tt;
        subjects = tt;
        channel = tt;
        since = tt;
        until = tt;
        good = refl;
        last = refl;
      },
      tt,
      refl,
      as_log tt refl,
    );
  };
  two_forms = λ program. record {
    taken = refl;
    values = given (codes "json") (codes "true") ∷ given (codes "keep") (codes "true")
        ∷ off (codes "good") ∷ off (codes "last") ∷ off (codes "kept") ∷ off (codes "salvage")
        ∷ [];
    entered = refl;
    reported = inr (record { clash = JsonAndKeep; given = (refl, refl); told = refl });
  };
  kept = λ program. record {
    taken = refl;
    values = given (codes "kept") (codes "true") ∷ off (codes "good") ∷ off (codes "last")
        ∷ off (codes "json") ∷ off (codes "keep") ∷ off (codes "salvage") ∷ [];
    command = refl;
    given = (
      record {
        stations = tt;
        subjects = tt;
        channel = tt;
        since = tt;
        until = tt;
        good = refl;
        last = refl;
      },
      tt,
      refl,
      as_log tt refl,
    );
  };
  from_a_place = λ program. record {
    taken = refl;
    values = given (codes "kept") (codes "true") ∷ given (codes "from") (codes "43")
        ∷ off (codes "good") ∷ off (codes "last") ∷ off (codes "json") ∷ off (codes "keep")
        ∷ off (codes "salvage") ∷ [];
    command = refl;
    given = (
      record {
        stations = tt;
        subjects = tt;
        channel = tt;
        since = tt;
        until = tt;
        good = refl;
        last = refl;
      },
      tt,
      refl,
      record {
        from = Some 43;
        said = record { digits = search rules; value = refl; in_range = search rules };
        asked = refl;
      },
    );
  };
  no_salvage = λ program. record {
    taken = refl;
    values = given (codes "kept") (codes "true") ∷ given (codes "salvage") (codes "true")
        ∷ off (codes "good") ∷ off (codes "last") ∷ off (codes "json") ∷ off (codes "keep") ∷ [];
    entered = refl;
    reported = inr (record { clash = KeptAndSalvage; given = (refl, refl); told = refl });
  };
  no_kept = λ program. record {
    taken = refl;
    values = given (codes "from") (codes "43") ∷ all_off;
    entered = refl;
    reported = inr (record {
      clash = FromWithoutKept;
      given = (refl, (codes "43", refl));
      told = refl;
    });
  };
  no_place = λ program. record {
    taken = refl;
    values = given (codes "kept") (codes "true") ∷ given (codes "from") (codes "+5")
        ∷ off (codes "good") ∷ off (codes "last") ∷ off (codes "json") ∷ off (codes "keep")
        ∷ off (codes "salvage") ∷ [];
    entered = refl;
    reported = inl (record {
      option = From;
      text = codes "+5";
      unfit = record { given = refl; nothing = plus_is_none };
      told = refl;
    });
  };
  salvage = λ program. record {
    taken = refl;
    values = given (codes "salvage") (codes "true") ∷ off (codes "good") ∷ off (codes "last")
        ∷ off (codes "json") ∷ off (codes "keep") ∷ off (codes "kept") ∷ [];
    command = refl;
    given = (
      record {
        stations = tt;
        subjects = tt;
        channel = tt;
        since = tt;
        until = tt;
        good = refl;
        last = refl;
      },
      tt,
      refl,
      as_log tt refl,
    );
  };
  channel = λ program. record {
    taken = refl;
    values = given (codes "channel") (codes "1") ∷ all_off;
    command = refl;
    given = (
      record {
        stations = tt;
        subjects = tt;
        channel = refl;
        since = tt;
        until = tt;
        good = refl;
        last = refl;
      },
      tt,
      refl,
      as_log tt refl,
    );
  };
  since = λ program. record {
    taken = refl;
    values = given (codes "since") (codes "2025-01-01") ∷ all_off;
    command = refl;
    given = (
      record {
        stations = tt;
        subjects = tt;
        channel = tt;
        since = (search rules, inr (inr (inr first_second)));
        until = tt;
        good = refl;
        last = refl;
      },
      tt,
      refl,
      as_log tt refl,
    );
  };
  until = λ program. record {
    taken = refl;
    values = given (codes "until") (codes "2025-01-01") ∷ all_off;
    command = refl;
    given = (
      record {
        stations = tt;
        subjects = tt;
        channel = tt;
        since = tt;
        until = (search rules, inr (inr (inr last_second)));
        good = refl;
        last = refl;
      },
      tt,
      refl,
      as_log tt refl,
    );
  };
  minute = λ program. record {
    taken = refl;
    values = given (codes "until") (codes "2025-01-01 00:40") ∷ all_off;
    command = refl;
    given = (
      record {
        stations = tt;
        subjects = tt;
        channel = tt;
        since = tt;
        until = (search rules, inr (inr (inl the_minute)));
        good = refl;
        last = refl;
      },
      tt,
      refl,
      as_log tt refl,
    );
  };
  one_second = λ program. record {
    taken = refl;
    values = given (codes "since") (codes "0") ∷ given (codes "until") (codes "0") ∷ all_off;
    command = refl;
    given = (
      record {
        stations = tt;
        subjects = tt;
        channel = tt;
        since = digit_names _ _ _ _ refl refl (search rules) (search rules);
        until = digit_names _ _ _ _ refl refl (search rules) (search rules);
        good = refl;
        last = refl;
      },
      search rules,
      refl,
      as_log tt refl,
    );
  };
  behind = λ program. record {
    taken = refl;
    values = given (codes "since") (codes "2") ∷ given (codes "until") (codes "1") ∷ all_off;
    entered = refl;
    reported = inr (record {
      clash = SinceBehindUntil;
      given = record {
        first = 2;
        since = digit_names _ _ _ _ refl refl (search rules) (search rules);
        last = 1;
        until = digit_names _ _ _ _ refl refl (search rules) (search rules);
        behind = search rules;
      };
      told = refl;
    });
  };
  no_year = λ program. record {
    taken = refl;
    values = given (codes "since") (codes "2025") ∷ all_off;
    entered = refl;
    reported = inl (record {
      option = Since;
      text = codes "2025";
      unfit = record { given = refl; nothing = year_is_none };
      told = refl;
    });
  };
  no_time = λ program. record {
    taken = refl;
    values = given (codes "since") (codes "now") ∷ all_off;
    entered = refl;
    reported = inl (record {
      option = Since;
      text = codes "now";
      unfit = record { given = refl; nothing = now_is_none };
      told = refl;
    });
  };
  small_letter = λ program. record {
    taken = refl;
    values = given (codes "station") (codes "e") ∷ all_off;
    entered = refl;
    reported = inl (record {
      option = Station;
      text = codes "e";
      unfit = record { given = refl; nothing = small_e_is_none };
      told = refl;
    });
  };
  flag_twice = λ program. (kind.ArgumentConflict, conflict_is_refusal, inl refl);
  option_twice = λ program. (kind.ArgumentConflict, conflict_is_refusal, inl refl);
}
