-- The styles of a compiler's text: bold, and six hues. Other attributes are ignored: background colours and concealed text could hide what a log
-- says.
use Rattle.std.specs.Prelude.{ℕ, ◌-◌, Bool, true, false, ◌==◌, ◌||◌, ◌&&◌, nat_le, List, fold, if◌then◌else◌}
use Rattle.redo_html.specs.declared.style.Hue.{Hue}
use Rattle.redo_html.specs.declared.style.Hue.TheVariants.{Plain, Red, Green, Yellow, Blue, Magenta, Cyan}
use Rattle.redo_html.specs.declared.style.Setting.{Setting}
use Rattle.redo_html.specs.declared.style.Style.{Style}

abbrev pub plain_style : Style
plain_style = record { bold = false; hue = Plain }

-- The hue of the last digit of a number. Black and white are the colour of the page's text.
abbrev pub digit_hue : ℕ → Hue
digit_hue digit =
    if digit == 1 then Red
    else if digit == 2 then Green
    else if digit == 3 then Yellow
    else if digit == 4 then Blue
    else if digit == 5 then Magenta
    else if digit == 6 then Cyan
    else Plain

-- The style after one attribute of an SGR sequence.
abbrev pub attribute_added : Style → ℕ → Style
attribute_added style number =
    if number == 0 then plain_style
    else if number == 1 then record { bold = true; hue = style.hue }
    else if number == 22 then record { bold = false; hue = style.hue }
    else if number == 39 then record { bold = style.bold; hue = Plain }
    else if nat_le 30 number && nat_le number 37 then record { bold = style.bold; hue = digit_hue (number - 30) }
    else if nat_le 90 number && nat_le number 97 then record { bold = style.bold; hue = digit_hue (number - 90) }
    else style

-- The numbers 38, 48 and 58 begin a colour of 256 or of 2^24, which is ignored: `5` and an index follow, or `2` and three components.
-- `setting.ahead` is the number of numbers still to ignore, and 4 directly before that `5` or `2`.
abbrev pub begins_colour : ℕ → Bool
begins_colour number = number == 38 || number == 48 || number == 58

abbrev pub setting_after : Setting → ℕ → Setting
setting_after setting number =
    if setting.ahead == 4 then record { style = setting.style; ahead = if number == 5 then 1 else 3 }
    else if nat_le 1 setting.ahead then record { style = setting.style; ahead = setting.ahead - 1 }
    else if begins_colour number then record { style = setting.style; ahead = 4 }
    else record { style = attribute_added setting.style number; ahead = 0 }

-- The style after the numbers of a sequence.
abbrev pub restyled : Style → List ℕ → Style
restyled style numbers = (fold setting_after (record { style = style; ahead = 0 }) numbers).style
