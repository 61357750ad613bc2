-- F-4: a run with a register, its input and its output, byte for byte.
-- Assumes nothing: these are definitions.
use Rattle.std.specs.Prelude.{List, ◌++◌, ℕ}
use Rattle.model.specs.Basics.{bytes}

-- the twelve MIDTs of a year: their rates add up to 3,546
abbrev pub months_of : List ℕ → List ℕ
months_of year =
    let month : List ℕ → List ℕ = λ rest. bytes "MIDT\t" ++ (year ++ rest) in
    month (bytes "\t1\t0\n")
    ++ month (bytes "\t2\t1\n")
    ++ month (bytes "\t3\t2\n")
    ++ month (bytes "\t4\t3\n")
    ++ month (bytes "\t5\t4\n")
    ++ month (bytes "\t6\t5\n")
    ++ month (bytes "\t7\t6\n")
    ++ month (bytes "\t8\t7\n")
    ++ month (bytes "\t9\t8\n")
    ++ month (bytes "\t10\t9\n")
    ++ month (bytes "\t11\t1001\n")
    ++ month (bytes "\t12\t2500\n")

-- the months of RATE 1987, which MIDT prints back
abbrev pub register_months : List ℕ
register_months = months_of (bytes "1982") ++ months_of (bytes "1983") ++ months_of (bytes "1984") ++ months_of (bytes "1985") ++ months_of (bytes "1986")

-- then a month again, limits and one past them, a RATE that lacks months, RATE 1987 twice, a RATE of three fields, and one of 1986
abbrev pub register_input : List ℕ
register_input =
    register_months
    ++ bytes "MIDT\t1986\t12\t2500\n"
    ++ bytes "MIDT\t1979\t1\t1\n"
    ++ bytes "MIDT\t1980\t1\t1\n"
    ++ bytes "MIDT\t2099\t12\t1\n"
    ++ bytes "MIDT\t2100\t1\t1\n"
    ++ bytes "MIDT\t1980\t0\t1\n"
    ++ bytes "MIDT\t1980\t13\t1\n"
    ++ bytes "MIDT\t1980\t2\t2501\n"
    ++ bytes "RATE\t1988\n"
    ++ bytes "RATE\t1987\n"
    ++ bytes "RATE\t1987\n"
    ++ bytes "RATE\t1989\t\n"
    ++ bytes "RATE\t1986\n"

abbrev pub register_output : List ℕ
register_output =
    register_months
    ++ bytes "NO\t7\n"
    ++ bytes "NO\t6\n"
    ++ bytes "MIDT\t1980\t1\t1\n"
    ++ bytes "MIDT\t2099\t12\t1\n"
    ++ bytes "NO\t6\n"
    ++ bytes "NO\t6\n"
    ++ bytes "NO\t6\n"
    ++ bytes "NO\t6\n"
    ++ bytes "NO\t14\n"
    ++ bytes "RATE\t1987\t296\n"
    ++ bytes "NO\t7\n"
    ++ bytes "NO\t4\n"
    ++ bytes "NO\t6\n"
    ++ bytes "DONE\t63\t10\n"
