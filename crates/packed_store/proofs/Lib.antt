mod Tables
mod Scans
