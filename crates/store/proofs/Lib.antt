mod Refusals
